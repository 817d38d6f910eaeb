pub mod Cells
pub mod Covering
pub mod Entries
pub mod Found
pub mod Laws
pub mod Plans
pub mod Sound
