pub mod Signs
pub mod Places
pub mod Raising
pub mod Totals
