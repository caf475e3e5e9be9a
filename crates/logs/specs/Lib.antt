-- A whole input to its log, block by block.
pub mod Logs
pub mod code
