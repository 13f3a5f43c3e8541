pub mod Forms
pub mod LineByLine
pub mod Longest
pub mod Short
pub mod Ends
pub mod Same
