pub mod View
pub mod Agreement
pub mod Reads
pub mod Runs
pub mod Creation
pub mod Exceptions
pub mod Demand
