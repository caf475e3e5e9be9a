-- The course of a transaction: what stands of it at each stage, and how an event moves it on.
pub mod Pieces
pub mod Stages
pub mod Courses
