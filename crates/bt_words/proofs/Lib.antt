pub mod Numerals
pub mod Walks
pub mod Verdicts
