pub mod Meaning
pub mod Faults
pub mod Sending
pub mod Stage
pub mod Play
pub mod TakeUp
pub mod Laws
