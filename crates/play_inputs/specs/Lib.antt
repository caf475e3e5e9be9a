-- How playing an input may end, and what is known of the bytes that are read and written.
pub mod Endings
pub mod Known
