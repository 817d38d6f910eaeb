pub mod Folds
pub mod Counted
pub mod Outcomes
pub mod Labels
pub mod Numbered
pub mod Sizes
pub mod Complete
pub mod InOrder
