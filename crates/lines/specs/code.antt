-- Definitions that only the code's contracts and proofs speak of; nothing rests on believing them: what a writer does to its buffer.
pub mod Writing
