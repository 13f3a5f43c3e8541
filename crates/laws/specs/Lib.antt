pub mod Sound
pub mod Finished
pub mod Together
pub mod Counted
pub mod Creatable
pub mod Saved
pub mod Held
pub mod Refused
