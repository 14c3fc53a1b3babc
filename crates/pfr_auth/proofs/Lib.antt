pub mod Parts
pub mod RegionLemmas
pub mod TrustedLaw
pub mod RebuiltLaw
pub mod LastingLaw
pub mod LeavingLaw
