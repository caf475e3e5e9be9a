-- Laws of an input played block by block.
pub mod Going
pub mod Places
pub mod WholeInput
pub mod Turning
pub mod Printing
pub mod Runs
