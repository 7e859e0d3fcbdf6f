pub mod AccessLemmas
pub mod AskedLemmas
pub mod RouteLemmas
