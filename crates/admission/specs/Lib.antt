pub mod Nodes
pub mod Marks
pub mod Sweep
pub mod Noted
pub mod Jumps
pub mod Answer
pub mod Found
pub mod Changes
