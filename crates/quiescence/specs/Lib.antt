pub mod Quiescent
pub mod Steps
