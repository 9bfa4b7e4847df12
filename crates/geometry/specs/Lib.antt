pub mod Geometry
pub mod Checks
