pub mod Selected
pub mod Moving
