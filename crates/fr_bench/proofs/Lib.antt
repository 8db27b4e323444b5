pub mod AuditLemmas
pub mod FaultLemmas
pub mod HeadLemmas
pub mod ReadLemmas
pub mod VersionLemmas
