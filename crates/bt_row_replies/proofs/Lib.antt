pub mod Cutting
pub mod Dropping
pub mod Judging
pub mod Prefixes
pub mod Ranges
pub mod Selecting
pub mod Verdicts
