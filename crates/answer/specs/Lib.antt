pub mod Numbers
pub mod Order
pub mod Refusals
pub mod Answers
