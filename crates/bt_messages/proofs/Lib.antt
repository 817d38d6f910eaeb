pub mod NoFloats
pub mod LineTexts
pub mod Runs
pub mod StatusTexts
