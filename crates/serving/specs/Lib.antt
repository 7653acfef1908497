pub mod Choice
pub mod Sent
pub mod Serving
