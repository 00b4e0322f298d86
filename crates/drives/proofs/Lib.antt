pub mod Sends
pub mod Play
pub mod Acts
