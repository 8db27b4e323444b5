pub mod Division
pub mod Layout
pub mod Segments
