pub mod Allocation
pub mod Change
pub mod Reads
pub mod Unbox
