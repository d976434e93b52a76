pub mod Changes
pub mod Clears
pub mod Guard
