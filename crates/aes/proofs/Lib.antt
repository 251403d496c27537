pub mod Table
pub mod Products
pub mod Packed
pub mod Keys
