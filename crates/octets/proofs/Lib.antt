pub mod Agreeing
pub mod Clamped
pub mod Numbers
pub mod Patches
pub mod Puts
pub mod Spelled
pub mod Words
