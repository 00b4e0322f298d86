pub mod Words
pub mod Faults
pub mod Lines
pub mod Questions
pub mod Summaries
pub mod Reads
pub mod Answers
