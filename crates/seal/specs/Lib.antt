pub mod Items
pub mod Answered
