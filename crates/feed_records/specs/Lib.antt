pub mod Openings
pub mod Bodies
pub mod Answers
pub mod Words
