pub mod Told
pub mod Computed
pub mod Cases
