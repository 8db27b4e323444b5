pub mod Checks
pub mod Counting
pub mod Forms
pub mod Status
