pub mod CertLaw
pub mod SparingLaw
mod Parts
