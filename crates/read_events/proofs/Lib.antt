-- Laws of where a record leads.
pub mod Onward
