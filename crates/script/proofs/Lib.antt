pub mod HexWords
pub mod Parts
pub mod Spelling
