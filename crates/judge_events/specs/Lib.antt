-- What is to be done for an event, and what a judge says who is told what the channels show.
pub mod Plans
pub mod Verdicts
