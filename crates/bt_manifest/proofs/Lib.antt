pub mod Codecs
pub mod Snapshots
pub mod Parts
pub mod Lengths
pub mod SlotReads
pub mod Counting
pub mod Publishes
