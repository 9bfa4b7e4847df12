pub mod Pack
pub mod Codes
pub mod Cases
