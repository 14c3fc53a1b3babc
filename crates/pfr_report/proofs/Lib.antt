pub mod NotedLemmas
mod CauseLemmas
mod VerdictLemmas
