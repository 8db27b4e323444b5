pub mod OpenLemmas
pub mod SpanLemmas
pub mod PostLemmas
pub mod SameLemmas
pub mod AloneLemmas
pub mod SearchLemmas
pub mod PeriodLemmas
pub mod GivenPlanLemmas
