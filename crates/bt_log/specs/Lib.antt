pub mod Place
pub mod Segment
pub mod Log
pub mod Reads
pub mod Staged
