pub mod Runs
pub mod Carried
pub mod Lost
