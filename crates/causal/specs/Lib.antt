pub mod Causal
pub mod Open
