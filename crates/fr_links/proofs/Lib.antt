pub mod CycleLemmas
pub mod LinkLemmas
pub mod NumberedLemmas
pub mod RangeLemmas
