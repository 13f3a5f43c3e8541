pub mod Endian
pub mod Rules
pub mod Walks
pub mod Records
pub mod Puts
pub mod Readings
