pub mod Runs
pub mod Union
