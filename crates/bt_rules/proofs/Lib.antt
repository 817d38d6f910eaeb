pub mod Grown
pub mod Columns
