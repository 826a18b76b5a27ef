pub mod Slips
pub mod Exactly
pub mod Typed
