-- Definitions that only the code's contracts and proofs speak of; nothing rests on believing them: what a method sees of a channel and makes of it.
pub mod Methods
pub mod Changes
