pub mod Runs
pub mod Turns
pub mod Leaving
pub mod Stating
pub mod Extents
