pub mod BenchOrders
pub mod Commands
pub mod MonitorCommands
pub mod NodeLists
pub mod ViewOrders
pub mod WorldCommands
