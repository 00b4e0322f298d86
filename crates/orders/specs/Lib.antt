pub mod Modes
pub mod Questions
pub mod Effects
pub mod Orders
