pub mod Traffic
pub mod Calls
pub mod Claim
pub mod Corollaries
