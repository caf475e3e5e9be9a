-- Laws over any element type.
pub mod Logic
pub mod Grounds
pub mod Cases
pub mod Lists
pub mod Cells
pub mod Queues
pub mod Totals
pub mod Sifted
pub mod Walks
pub mod Orders
pub mod Padded
pub mod Loops
pub mod Made
pub mod Writing
