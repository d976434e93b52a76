pub mod Cases
pub mod Fresh
pub mod Landing
