pub mod DueLemmas
pub mod FirstLemmas
mod HeaderLemmas
pub mod SenderLemmas
pub mod ZeroLemmas
