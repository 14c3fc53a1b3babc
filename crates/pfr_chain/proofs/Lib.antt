pub mod BlockLaw
pub mod Form1Law
pub mod Form2Law
pub mod ChainLaw
pub mod MovedLaw
pub mod TypeLaw
pub mod FreeLaw
