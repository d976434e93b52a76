pub mod Books
pub mod Keeps
pub mod Lines
pub mod Theorem
pub mod Uses
