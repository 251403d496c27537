pub mod Rows
pub mod FirstSlot
pub mod InOrder
pub mod Sums
pub mod Lowest
pub mod Fits
pub mod Bits
pub mod MapBits
