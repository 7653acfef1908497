pub mod Left
pub mod Lost
pub mod Examples
