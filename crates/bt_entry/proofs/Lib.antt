pub mod Parts
pub mod RuleTrees
pub mod RuleLaws
pub mod Laws
pub mod EntryLaws
pub mod Batches
pub mod Places
