pub mod Opcodes
pub mod Operands
