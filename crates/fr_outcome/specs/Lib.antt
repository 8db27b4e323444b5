pub mod ErrorNames
pub mod OutcomeText
pub mod ScenarioFiles
