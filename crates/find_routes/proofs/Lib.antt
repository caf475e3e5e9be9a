-- Laws of the next place as it is found, and of the hop table as it is made.
pub mod Nearest
pub mod Following
pub mod Places
pub mod Tabled
pub mod Filled
pub mod Crossings
pub mod OneMore
pub mod Bridged
pub mod Tried
