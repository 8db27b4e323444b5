pub mod TableLemmas
pub mod LineLemmas
pub mod NodeLemmas
