pub mod NumberLemmas
pub mod HexLemmas
pub mod GrowLemmas
pub mod WordLemmas
pub mod GrammarLemmas
