pub mod Raise
pub mod Multicast
pub mod Indexed
