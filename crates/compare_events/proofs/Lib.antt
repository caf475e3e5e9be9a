-- Laws of feet.
pub mod Standing
