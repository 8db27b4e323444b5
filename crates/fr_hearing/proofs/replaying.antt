mod SenderLemmas
mod OfferLemmas
mod GoneLemmas
mod SentLemmas
mod StepLemmas
mod PlaceLemmas
mod WalkLemmas
pub mod ReplayLaws
