-- Laws of one step.
pub mod WrongModels
pub mod TakenSteps
pub mod BeginNumbers
pub mod EveryStepMoves
pub mod CloseAtHand
pub mod TrialTable
pub mod Kept
pub mod SoundStays
pub mod FirstBegins
pub mod RefusedExactly
pub mod NumberZero
pub mod Reading
