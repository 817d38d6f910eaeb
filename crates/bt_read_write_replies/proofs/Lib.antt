pub mod Checking
pub mod Modifying
