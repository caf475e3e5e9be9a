-- What the routes are found by.
pub mod Hops
pub mod Crossings
