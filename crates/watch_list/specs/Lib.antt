pub mod List
pub mod Layout
pub mod Parts
