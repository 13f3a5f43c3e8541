pub mod Equality
pub mod SlicesWrites
