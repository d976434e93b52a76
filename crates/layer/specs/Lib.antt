pub mod Below
pub mod Distinct
pub mod Holds
pub mod Windows
