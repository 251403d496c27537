pub mod Tables
pub mod SlotTable
pub mod DirtyMap
pub mod Limits
