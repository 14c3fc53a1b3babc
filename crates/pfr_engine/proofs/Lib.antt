pub mod WordLemmas
pub mod PieceLemmas
pub mod LineLemmas
pub mod AcceptLemmas
