pub mod Lines
pub mod Rows
pub mod Single
