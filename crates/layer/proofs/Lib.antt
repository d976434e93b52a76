pub mod Descents
pub mod Images
pub mod Lowering
pub mod Overlays
pub mod Rooms
