pub mod Ascii
pub mod Numbers
pub mod Escapes
pub mod Pieces
pub mod Lines
