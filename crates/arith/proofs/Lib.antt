pub mod ResidueLemmas
pub mod WordLemmas
