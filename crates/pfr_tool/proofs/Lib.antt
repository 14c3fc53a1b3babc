pub mod AreaSteps
pub mod Digits
pub mod PageSteps
pub mod RegionSteps
pub mod Texts
