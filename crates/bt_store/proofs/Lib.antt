pub mod Follows
pub mod Holds
pub mod Commits
pub mod Loads
pub mod Begins
pub mod Both
pub mod Writable
