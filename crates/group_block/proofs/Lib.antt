pub mod Sums
pub mod Codes
pub mod Laws
pub mod Adding
pub mod Halves
pub mod Steps
pub mod Uniting
