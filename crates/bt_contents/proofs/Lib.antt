pub mod Found
pub mod Lists
pub mod Rows
pub mod Steps
pub mod Within
