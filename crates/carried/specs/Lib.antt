pub mod Same
pub mod Calls
pub mod Carried
