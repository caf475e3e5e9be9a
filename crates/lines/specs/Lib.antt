-- The log's lines as bytes, and a buffer written into.
pub mod Lines
pub mod code
