pub mod Computed
pub mod Cases
pub mod Refusals
