pub mod Block
pub mod Journal
pub mod Calls
