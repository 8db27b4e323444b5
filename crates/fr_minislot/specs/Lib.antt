pub mod DynamicRows
pub mod Lanes
pub mod LaneFields
