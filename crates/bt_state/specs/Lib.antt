pub mod Batches
pub mod State
