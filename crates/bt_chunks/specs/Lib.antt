pub mod Chunks
pub mod Joining
pub mod Packing
pub mod Pieces
pub mod Joiner
