pub mod Commands
pub mod Cycles
pub mod LinkText
pub mod Links
pub mod Receivers
