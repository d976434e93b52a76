pub mod Added
pub mod Drafts
pub mod Found
pub mod Images
pub mod Places
pub mod Refusals
