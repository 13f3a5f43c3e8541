pub mod Titles
pub mod Laws
pub mod Soundness
pub mod Setting
