-- The table, as document 01 describes it under "The network".
pub mod Capacities
pub mod Numbers
pub mod Channels
pub mod Ways
pub mod Routes
pub mod Tables
pub mod Answers
