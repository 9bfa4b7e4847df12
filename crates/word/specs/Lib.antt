pub mod Step
pub mod Kinds
pub mod Word
