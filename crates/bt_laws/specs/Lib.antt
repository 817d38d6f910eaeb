pub mod Answers
pub mod Disks
pub mod Labels
pub mod Reads
pub mod States
pub mod Tables
