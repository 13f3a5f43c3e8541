pub mod Same
pub mod Numbers
