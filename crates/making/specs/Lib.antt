pub mod Begun
pub mod Calls
