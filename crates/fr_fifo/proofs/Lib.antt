pub mod FifoLemmas
pub mod TextLemmas
