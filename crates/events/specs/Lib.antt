-- The nine kinds: record bytes, grounds in their order, effects and values, the single step, the states reached.
pub mod Accounts
pub mod Records
pub mod Reads
pub mod Tests
pub mod Grounds
pub mod Effects
pub mod Steps
pub mod Reached
