pub mod RowLemmas
pub mod WorkedLemmas
