pub mod ClassicLemmas
mod PartLemmas
pub mod ReadLemmas
