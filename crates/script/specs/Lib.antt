pub mod Digits
pub mod Faults
pub mod Kept
pub mod Parting
pub mod Ranges
pub mod Readings
pub mod Spelled
