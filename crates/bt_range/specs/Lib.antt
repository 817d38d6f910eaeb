pub mod Bounds
pub mod RowSets
pub mod Covers
