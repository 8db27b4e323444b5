pub mod ErrorNames
pub mod Midpoint
pub mod Refusals
pub mod Selection
