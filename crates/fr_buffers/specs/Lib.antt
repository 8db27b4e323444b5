pub mod QueueFields
pub mod TransmitFields
pub mod Transmitting
pub mod Waiting
