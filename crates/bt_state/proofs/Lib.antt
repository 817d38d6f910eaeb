pub mod Entries
pub mod Gone
pub mod InTurn
pub mod Made
pub mod Maps
mod Reached
