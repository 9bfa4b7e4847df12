pub mod Head
pub mod Results
