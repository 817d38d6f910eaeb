pub mod Lines
pub mod Runs
pub mod Crashes
pub mod Steps
pub mod Ends
