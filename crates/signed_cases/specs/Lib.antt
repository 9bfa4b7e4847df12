pub mod Cases
pub mod Refusals
