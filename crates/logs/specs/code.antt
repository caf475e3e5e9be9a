-- Definitions that only the code's contracts and proofs speak of; nothing rests on believing them: one block of an input, as it is played.
pub mod Plays
pub mod Runs
