-- What a record asks of the channels of a lent state, and what it then makes of the state. Only code speaks of these.
pub mod Asks
pub mod Judged
