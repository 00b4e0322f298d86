pub mod Drives
pub mod Bench
pub mod Ticks
