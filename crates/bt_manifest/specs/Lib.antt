pub mod Grammar
pub mod Spelling
pub mod Reading
pub mod Slots
pub mod Publishing
pub mod Loading
