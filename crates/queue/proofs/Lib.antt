-- Laws of one channel.
pub mod Plainly
pub mod Names
pub mod Matching
pub mod Placed
pub mod Moved
pub mod Packed
pub mod Lengths
pub mod Marks
pub mod Looked
