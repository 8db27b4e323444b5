pub mod Looks
pub mod Places
pub mod Extents
pub mod Pages
pub mod Cells
