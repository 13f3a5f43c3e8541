pub mod Loops
pub mod Tables
pub mod Creation
