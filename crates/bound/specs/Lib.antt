pub mod Once
pub mod Potential
pub mod Bound
pub mod Settle
