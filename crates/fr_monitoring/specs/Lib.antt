pub mod ErrorNames
pub mod FrameText
pub mod LineText
pub mod Monitoring
pub mod SummaryText
