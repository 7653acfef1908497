pub mod Known
pub mod Groups
pub mod Messages
