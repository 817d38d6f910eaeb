pub mod Shapes
pub mod Values
pub mod Alone
pub mod Members
pub mod Faults
pub mod Walk
