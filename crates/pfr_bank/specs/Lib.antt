pub mod Keeping
pub mod Lending
pub mod Spelling
pub mod Seats
pub mod Checking
