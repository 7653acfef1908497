pub mod Sends
pub mod Ready
pub mod Marks
pub mod Oks
