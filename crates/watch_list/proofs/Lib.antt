pub mod Lists
pub mod Columns
pub mod Places
pub mod Changes
