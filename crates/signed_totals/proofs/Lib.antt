pub mod Times
pub mod Groups
