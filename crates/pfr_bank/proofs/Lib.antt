pub mod SpellingLaw
pub mod BusLemmas
