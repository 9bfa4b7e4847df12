pub mod Laws
pub mod Places
pub mod Outcomes
pub mod Changing
pub mod Results
