pub mod Looks
pub mod InOrder
pub mod RuleLevels
pub mod FilterLevels
pub mod Parents
