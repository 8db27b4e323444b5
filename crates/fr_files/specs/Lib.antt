pub mod ClusterFiles
pub mod Inputs
pub mod NodeTexts
pub mod Outputs
pub mod ErrorNames
