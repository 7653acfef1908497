pub mod Counters
pub mod Examples
