pub mod Checks
pub mod Midpoints
pub mod Numbers
pub mod PlanText
