pub mod WorkedLemmas
