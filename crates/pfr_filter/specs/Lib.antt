pub mod Opcodes
pub mod Asking
pub mod Frames
pub mod Rows
pub mod Walking
