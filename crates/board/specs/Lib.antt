pub mod Meaning
pub mod Calls
pub mod Tampering
pub mod Memory
pub mod Piles
