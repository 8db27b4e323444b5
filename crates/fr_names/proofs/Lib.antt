pub mod MapLemmas
pub mod WorkedLemmas
mod NamedLemmas
