pub mod FifoText
pub mod FifoSteps
