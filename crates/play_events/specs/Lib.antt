-- What is told a judge of a record; records played one by one.
pub mod Notices
pub mod Plays
