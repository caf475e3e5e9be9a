-- What is said of a value that is lent to a function, and of a type by value, in the terms of the program logic. Today's borrow checker
-- walks through each function that is lent something, so that no other crate needs these.
pub mod Lending
pub mod Plain
