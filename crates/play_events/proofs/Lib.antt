-- Laws of records played.
pub mod Told
pub mod CarriedOut
pub mod Shown
pub mod There
pub mod Carried
pub mod Reading
pub mod Playing
