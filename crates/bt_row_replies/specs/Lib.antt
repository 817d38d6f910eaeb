pub mod Drops
pub mod MutateRows
pub mod Prefixes
pub mod Rows
