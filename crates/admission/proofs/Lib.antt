pub mod Stacks
pub mod Exchanges
pub mod OpenLoops
pub mod Turns
pub mod Landings
pub mod Ending
pub mod Reach
pub mod Notes
