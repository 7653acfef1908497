pub mod Theorem
pub mod Uses
pub mod Examples
