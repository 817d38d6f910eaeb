pub mod Beginnings
pub mod Comings
pub mod FilterRefusals
pub mod NoPlans
pub mod Plans
pub mod Records
pub mod Replies
pub mod RowEntries
