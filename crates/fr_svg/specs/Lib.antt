pub mod Elements
pub mod Styles
