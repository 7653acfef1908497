pub mod Absent
pub mod Whole
pub mod Indexed
