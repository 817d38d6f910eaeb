pub mod Grammar
pub mod Time
pub mod Cells
pub mod Mutations
pub mod Sources
