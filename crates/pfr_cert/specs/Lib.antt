pub mod Answer
pub mod Certificate
pub mod Judge
pub mod Applying
