-- Definitions that only the code's contracts and proofs speak of; nothing rests on believing them: changes of a declared state, and how soundness is tested.
pub mod Acts
pub mod Testing
