pub mod Served
pub mod Turns
pub mod Words
pub mod Alike
pub mod Examples
