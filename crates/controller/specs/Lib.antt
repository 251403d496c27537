pub mod Views
pub mod Runs
pub mod Registers
pub mod Worlds
pub mod Outside
pub mod Scripts
pub mod Restores
pub mod BringUps
