pub mod Responses
pub mod Selection
