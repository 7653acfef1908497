pub mod Sends
pub mod Oks
