pub mod Blocked
pub mod Changed
pub mod Headers
pub mod Loaded
pub mod Ordered
