pub mod Joins
pub mod Packing
pub mod Values
pub mod Names
pub mod Steps
