pub mod Checks
pub mod Resolution
