pub mod OutcomeLemmas
pub mod PaceLemmas
mod RunLemmas
