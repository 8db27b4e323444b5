pub mod Contents
pub mod Expected
pub mod MissedText
