pub mod Reads
pub mod Replies
pub mod Runs
