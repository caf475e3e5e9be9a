-- What document 01 says under "Entries and channels" and "Passing", for one channel.
pub mod Entries
pub mod Queues
pub mod Packing
pub mod code
