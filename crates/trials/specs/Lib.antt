-- The marked trials of document 01, about the definitions alone.
pub mod Streams
pub mod Marked
