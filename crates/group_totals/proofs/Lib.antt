pub mod Canon
pub mod Groups
