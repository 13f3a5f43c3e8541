pub mod Behind
pub mod Performing
pub mod Passes
pub mod Whole
pub mod Runs
