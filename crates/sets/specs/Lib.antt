pub mod Lowest
pub mod Below
pub mod Sweep
pub mod Members
pub mod Powers
