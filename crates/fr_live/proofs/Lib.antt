pub mod LeadLemmas
pub mod RefusalLemmas
pub mod StepLemmas
pub mod RoomLemmas
pub mod HeadlineLemmas
pub mod CallLemmas
pub mod SeeLemmas
