pub mod CopiedLaw
pub mod ActiveLaw
