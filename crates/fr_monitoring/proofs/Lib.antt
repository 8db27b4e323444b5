mod FollowLemmas
mod LineLemmas
mod TextLemmas
mod WholeLemmas
