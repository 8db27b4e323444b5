pub mod LetterLemmas
pub mod PassLemmas
