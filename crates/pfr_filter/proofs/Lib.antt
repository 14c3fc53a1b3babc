pub mod WalkLemmas
pub mod JudgeLaws
pub mod SafeLaws
