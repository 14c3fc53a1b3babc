pub mod Answer
pub mod Regions
pub mod Judge
pub mod Trusted
pub mod Areas
pub mod Lasting
pub mod Leaving
pub mod Throughout
