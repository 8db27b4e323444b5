pub mod Names
pub mod FileNames
pub mod NamedFiles
