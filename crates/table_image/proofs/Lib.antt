pub mod Fits
pub mod Interned
pub mod Loads
pub mod Saves
pub mod Turns
