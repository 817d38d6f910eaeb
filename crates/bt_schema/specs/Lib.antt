pub mod Schema
pub mod Indexed
pub mod Grammar
pub mod Spelling
pub mod Reading
