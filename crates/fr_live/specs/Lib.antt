pub mod LiveWorlds
pub mod LiveSteps
pub mod RoomFields
