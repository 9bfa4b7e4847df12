pub mod Steps
pub mod Claim
