pub mod Tests
pub mod Shifts
pub mod Lists
