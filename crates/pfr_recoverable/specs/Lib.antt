pub mod Recoverable
