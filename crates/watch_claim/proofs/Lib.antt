pub mod Entries
pub mod Holding
pub mod Entrywise
pub mod Theorem
