-- Laws of an input that is read, and of its log that is written or compared.
pub mod Blocks
pub mod Taking
pub mod Turns
