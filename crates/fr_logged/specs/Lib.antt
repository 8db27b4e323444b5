pub mod Dues
pub mod Findings
pub mod Headers
pub mod Logged
pub mod Rules
