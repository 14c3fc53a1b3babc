pub mod Stages
pub mod Watching
