-- Laws of decimal numbers and of writing.
pub mod Decimals
pub mod Texts
pub mod OneResult
