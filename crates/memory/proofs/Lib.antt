pub mod Elements
pub mod Filling
pub mod Placed
pub mod Scaled
