pub mod Tasks
pub mod Table
pub mod Storage
