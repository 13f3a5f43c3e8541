pub mod Behind
pub mod States
pub mod Going
