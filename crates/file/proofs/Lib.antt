pub mod AllRecords
pub mod Pages
