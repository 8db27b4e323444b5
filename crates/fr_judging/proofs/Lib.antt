mod ClockLemmas
pub mod DueLemmas
mod FreshLemmas
mod LoopLemmas
mod PlainLemmas
mod SenderLemmas
