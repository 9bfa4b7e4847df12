pub mod Rows
pub mod Accepting
pub mod Exact
pub mod Theorems
