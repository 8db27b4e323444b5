pub mod PlaceLemmas
pub mod ThroughLemmas
pub mod ContentLemmas
pub mod MissLemmas
pub mod WorkedLemmas
