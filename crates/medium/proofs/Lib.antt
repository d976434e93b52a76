pub mod Cutting
pub mod Partial
pub mod Runs
pub mod Writes
