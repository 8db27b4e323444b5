pub mod InputLemmas
pub mod NodeTextLemmas
pub mod OutputLemmas
