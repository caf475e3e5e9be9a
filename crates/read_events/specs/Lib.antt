-- What is read off a record, and what is seen where it points.
pub mod Frames
pub mod Sights
