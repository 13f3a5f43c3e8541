pub mod Grammar
pub mod Utf8
pub mod Steps
