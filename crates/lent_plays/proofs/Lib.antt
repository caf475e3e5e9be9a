-- Laws of records played on a lent state.
pub mod Answered
pub mod Stepped
