pub mod Shown
pub mod Appended
pub mod Theorem
pub mod Uses
pub mod Lengths
pub mod Carried
pub mod Examples
