pub mod Copies
pub mod Ends
pub mod Interns
pub mod Laws
