pub mod Cuts
pub mod Flat
pub mod Meaning
pub mod Runs
pub mod Texts
pub mod Trials
