pub mod Refusals
pub mod Values
pub mod Always
pub mod Same
