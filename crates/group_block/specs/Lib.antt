pub mod Kind
pub mod Figure
pub mod Block
pub mod Sum
pub mod Change
pub mod Passed
