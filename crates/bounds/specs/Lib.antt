pub mod Bounds
pub mod Run
