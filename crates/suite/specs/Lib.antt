pub mod Scheme
pub mod Words
pub mod Message
pub mod Suites
pub mod Kinds
