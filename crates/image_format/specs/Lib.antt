pub mod Image
pub mod Write
pub mod Read
pub mod Fields
pub mod Tables
