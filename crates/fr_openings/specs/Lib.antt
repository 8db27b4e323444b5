pub mod Openings
pub mod Aside
