pub mod Meaning
pub mod Flaws
pub mod Building
pub mod Counting
