pub mod Known
pub mod Counted
pub mod Logs
pub mod Process
pub mod Message
pub mod Places
