-- Laws of a tick played.
pub mod Pairing
pub mod Carrying
pub mod Judging
pub mod CarriedTogether
pub mod TickPlayed
