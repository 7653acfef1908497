pub mod Settling
pub mod Places
pub mod Batch
