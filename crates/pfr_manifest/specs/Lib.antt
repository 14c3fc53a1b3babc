pub mod Regions
pub mod Spelling
pub mod Manifest
pub mod Stretches
pub mod Access
pub mod Hashes
pub mod Judge
pub mod Answer
