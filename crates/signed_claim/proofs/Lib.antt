pub mod Totals
pub mod Holds
pub mod Calls
pub mod Steps
pub mod Answers
pub mod Theorem
