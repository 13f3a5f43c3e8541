pub mod Asked
pub mod Shows
pub mod Listed
