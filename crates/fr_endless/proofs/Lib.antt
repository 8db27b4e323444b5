pub mod AlikeLemmas
pub mod CycleLemmas
pub mod MovingLemmas
pub mod ReportLemmas
mod KeptLemmas
mod NumberLemmas
mod OutcomeLemmas
pub mod ReceivingLemmas
mod ReplyLemmas
pub mod SessionLemmas
pub mod OpeningLemmas
pub mod TapLemmas
pub mod EachLemmas
pub mod TraceLemmas
