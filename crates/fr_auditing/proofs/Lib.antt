pub mod CutLemmas
pub mod EarlierLemmas
pub mod KeptLemmas
pub mod LongAgainLemmas
pub mod LongFoundLemmas
pub mod LongNodeLemmas
pub mod LongTextLemmas
pub mod StreamLemmas
