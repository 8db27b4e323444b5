pub mod OwnerLemmas
pub mod TickLemmas
pub mod ShareLemmas
pub mod DynamicLemmas
pub mod RangeLemmas
pub mod GuardLemmas
pub mod DeterminedLemmas
