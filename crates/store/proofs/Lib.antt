mod Tables
pub mod Closings
pub mod Histories
pub mod Laws
