-- What judging a record of a tick leaves, and turns carried out. Nothing rests on believing them.
pub mod Turns
