pub mod Next
pub mod Words
pub mod Examples
