pub mod Knowledge
pub mod Precedence
pub mod Counters
pub mod Logs
pub mod Cascade
pub mod Multicast
pub mod Runs
pub mod Order
