pub mod AnyByte
pub mod Readings
pub mod Patterns
pub mod Compiled
