pub mod Ways
pub mod Guarantees
pub mod Leading
pub mod Exactness
pub mod Delays
pub mod Chances
