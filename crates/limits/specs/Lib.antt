pub mod Limits
pub mod Senders
pub mod Addressees
pub mod Members
