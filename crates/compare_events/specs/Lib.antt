-- What an event is compared by. Nothing rests on believing it: a foot is proved to stand for the footing.
pub mod Feet
