pub mod Alone
pub mod Leaves
