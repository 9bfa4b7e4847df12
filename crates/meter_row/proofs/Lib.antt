pub mod Results
pub mod Slots
