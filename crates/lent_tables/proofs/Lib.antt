-- Laws of a table made record by record.
pub mod Adding
pub mod Gathered
pub mod Trials
