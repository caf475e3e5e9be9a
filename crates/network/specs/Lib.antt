-- The state: as lists, as declared, when it is sound, and the edits that events are made of.
pub mod Rooms
pub mod Nets
pub mod Soundness
pub mod Opening
pub mod Edits
pub mod Shapes
pub mod code
