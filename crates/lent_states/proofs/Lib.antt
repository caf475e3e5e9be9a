-- Laws of a lent state: the entries in its channels.
pub mod Held
