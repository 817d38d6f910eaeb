pub mod InTurn
pub mod Mutates
pub mod Refusing
