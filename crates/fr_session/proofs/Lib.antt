pub mod LineLemmas
pub mod SessionLemmas
pub mod CutLemmas
pub mod QueryLemmas
pub mod KeepingLemmas
pub mod LawLemmas
pub mod MarkLemmas
pub mod MeetLemmas
