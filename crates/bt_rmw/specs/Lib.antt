pub mod Columns
pub mod Held
pub mod Modified
pub mod Rules
