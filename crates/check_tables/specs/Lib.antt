-- What the table check is made of.
pub mod Ladders
