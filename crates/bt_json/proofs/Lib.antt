pub mod Sorted
pub mod Turns
pub mod Views
