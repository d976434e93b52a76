pub mod Held
pub mod Pages
pub mod Saved
pub mod Sound
pub mod Walks
