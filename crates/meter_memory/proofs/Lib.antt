pub mod Lists
pub mod Groups
pub mod Gather
pub mod Agree
pub mod Pairs
pub mod Written
pub mod Tried
