pub mod Decimals
pub mod Cuts
pub mod Pieces
pub mod Hexes
pub mod Rows
pub mod Readers
pub mod Single
