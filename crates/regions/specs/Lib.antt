pub mod Runs
pub mod Rows
pub mod Letters
pub mod Nexts
