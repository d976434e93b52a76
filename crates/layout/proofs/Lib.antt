pub mod Alike
pub mod Decided
pub mod Entries
pub mod Fitting
pub mod HeldBytes
pub mod HeldSide
pub mod RestsOnHeld
pub mod Sides
