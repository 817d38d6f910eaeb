pub mod Indexes
pub mod Altered
pub mod Copies
pub mod Named
pub mod Ends
pub mod Spelled
pub mod Places
pub mod Written
