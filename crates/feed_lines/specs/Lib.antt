pub mod Line
pub mod Feed
pub mod Step
pub mod Pieces
pub mod Bounds
pub mod Examples
