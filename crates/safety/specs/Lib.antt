pub mod Kinds
pub mod Safe
