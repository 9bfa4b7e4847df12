pub mod Answers
pub mod Head
pub mod Record
