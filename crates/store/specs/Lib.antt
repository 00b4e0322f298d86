pub mod Faults
pub mod Closing
pub mod Programs
pub mod Entry
pub mod Lending
pub mod Laws
