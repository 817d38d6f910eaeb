pub mod Orders
pub mod Merges
pub mod Selecting
pub mod Covering
