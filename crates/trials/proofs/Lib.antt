-- The statement of the marked trials.
pub mod MarkedTrials
