pub mod MomentLemmas
pub mod ReadLemmas
pub mod RecordLemmas
pub mod ShowLemmas
pub mod StartLemmas
pub mod TakerLemmas
pub mod TakingLemmas
