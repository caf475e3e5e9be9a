-- Laws of a cycle played on a lent state.
pub mod Pairing
pub mod Settled
pub mod Told
pub mod Firsts
pub mod OneResult
