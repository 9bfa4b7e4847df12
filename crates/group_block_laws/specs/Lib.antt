pub mod Climb
pub mod Union
pub mod Least
pub mod Counts
