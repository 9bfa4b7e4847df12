pub mod Tests
pub mod Slots
pub mod Calls
pub mod Refusals
pub mod Memory
pub mod Reading
