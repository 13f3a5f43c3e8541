pub mod Answers
pub mod Examples
pub mod Leaves
pub mod Lines
pub mod Mechanism
pub mod Slots
pub mod Tasks
pub mod Texts
