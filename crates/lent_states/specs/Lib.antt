-- What is said of a lent state.
pub mod Stores
pub mod Held
