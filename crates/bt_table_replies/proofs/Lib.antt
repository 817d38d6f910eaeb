pub mod Altering
pub mod Creates
pub mod Losing
pub mod Lost
pub mod Modifying
pub mod Updates
