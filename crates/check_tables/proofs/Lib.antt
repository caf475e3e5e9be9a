-- Laws of the ladder, and of questions answered in their order.
pub mod Levels
pub mod Asking
