pub mod Elements
pub mod Labels
pub mod Check
pub mod Faults
