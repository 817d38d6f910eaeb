pub mod Sizes
pub mod Progress
pub mod Alone
pub mod Makes
pub mod Handles
