pub mod Blocks
pub mod Moving
pub mod Ticks
