pub mod NextTick
pub mod Unplayed
