-- Blocks of 512 bytes: their bytes, their check and their grounds.
pub mod Blocks
pub mod Answers
