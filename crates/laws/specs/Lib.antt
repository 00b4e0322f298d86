pub mod Acts
pub mod Blocks
pub mod Kept
pub mod Laws
pub mod Reckoned
pub mod Started
pub mod Stopped
