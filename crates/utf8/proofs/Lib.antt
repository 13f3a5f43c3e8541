pub mod Lead
pub mod Agrees
pub mod Laws
pub mod Examples
