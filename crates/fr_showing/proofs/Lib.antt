pub mod CommitLemmas
pub mod DecidedLemmas
pub mod FateLemmas
pub mod GoingLemmas
pub mod PartLemmas
pub mod RecordLemmas
pub mod ShowLemmas
