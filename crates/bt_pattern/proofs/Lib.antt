pub mod Rewriting
pub mod Readings
pub mod Searches
