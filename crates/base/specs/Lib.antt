-- What every other crate's definitions are written in.
pub mod Lists
pub mod Grounds
