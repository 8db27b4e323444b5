pub mod MatrixLemmas
pub mod ExtentLemmas
pub mod GridLemmas
