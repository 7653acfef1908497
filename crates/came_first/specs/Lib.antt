pub mod Masks
pub mod Bytes
pub mod Words
pub mod Worlds
pub mod Examples
