-- Conflict (a) to (e), and the tick.
pub mod Footings
pub mod Conflicts
pub mod Ticks
