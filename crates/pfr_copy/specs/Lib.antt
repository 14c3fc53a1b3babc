pub mod Applying
pub mod Working
pub mod Marking
pub mod Copied
pub mod Stopped
pub mod Recovering
