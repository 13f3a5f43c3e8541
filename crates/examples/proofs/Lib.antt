pub mod Bytecode
pub mod Lines
pub mod Memory
pub mod Pools
pub mod Stacks
pub mod Tasks
pub mod Values
