-- Laws of the table.
pub mod Buses
pub mod Components
pub mod Counts
pub mod Unique
pub mod Trees
pub mod Numbering
pub mod Passing
pub mod Steps
pub mod Hops
pub mod OnTheWay
pub mod Along
pub mod TurnsBack
pub mod Numbered
