mod ViewLemmas
mod OpeningLemmas
mod GoodLemmas
mod SideLemmas
mod JointLemmas
mod FinishLemmas
mod WindowLemmas
mod WalkLemmas
mod OnceLemmas
mod BothLemmas
mod TwinLemmas
mod QuietLemmas
pub mod PairLaws
