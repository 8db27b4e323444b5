pub mod CommitLog
pub mod CommitLaws
pub mod LogSteps
pub mod Received
pub mod Streams
pub mod RunFields
pub mod Runs
