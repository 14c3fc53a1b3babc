pub mod Copying
pub mod ActiveCopying
pub mod Passing
