pub mod Cascade
pub mod Turn
pub mod Ready
