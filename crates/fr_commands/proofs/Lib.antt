pub mod MidpointLemmas
pub mod NumberLemmas
pub mod PlanTextLemmas
