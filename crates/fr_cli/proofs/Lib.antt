pub mod BenchLemmas
pub mod BenchWholeLemmas
pub mod CommandLemmas
pub mod MonitorLemmas
mod NodeLemmas
mod ViewLemmas
pub mod WorldLemmas
