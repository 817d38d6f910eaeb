pub mod Families
pub mod Losses
pub mod Modifications
pub mod Tables
