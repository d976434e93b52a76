pub mod Lines
pub mod Piles
pub mod Pokes
pub mod Scripts
pub mod Steps
