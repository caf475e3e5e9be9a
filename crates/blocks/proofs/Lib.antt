-- Laws of a block's bytes and answers.
pub mod Bytes
pub mod Accepted
