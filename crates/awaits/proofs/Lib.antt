pub mod Next
pub mod Words
pub mod Theorem
pub mod Uses
pub mod Examples
