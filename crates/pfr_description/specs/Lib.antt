pub mod Banks
pub mod Described
pub mod Keys
pub mod Lists
pub mod Sound
pub mod Tables
pub mod Typed
pub mod Whole
