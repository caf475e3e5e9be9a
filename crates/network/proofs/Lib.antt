-- Laws of the state.
pub mod AllZero
pub mod Rooms
pub mod Rules
pub mod Fits
pub mod Packing
pub mod Testing
pub mod Good
pub mod Kept
pub mod Acts
pub mod OfType
pub mod NumberZero
