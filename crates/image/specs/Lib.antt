pub mod Image
pub mod Slots
pub mod Table
pub mod Reading
pub mod Walking
pub mod Writing
