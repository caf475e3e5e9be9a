-- Laws of blocks played.
pub mod Stepping
pub mod Turning
pub mod Ticking
pub mod Running
pub mod OneResult
