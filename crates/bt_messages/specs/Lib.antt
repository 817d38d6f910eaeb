pub mod Lines
pub mod Refusals
pub mod Values
pub mod Rows
pub mod Responses
pub mod Statuses
