pub mod Turns
pub mod Steps
pub mod Commits
pub mod Outcomes
