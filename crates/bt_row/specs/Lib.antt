pub mod Extents
pub mod Keys
pub mod Plans
pub mod Sound
