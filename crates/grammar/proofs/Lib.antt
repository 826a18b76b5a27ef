pub mod Fields
pub mod Needs
pub mod Texts
pub mod Lines
pub mod Finding
pub mod Sizes
pub mod Back
pub mod Duties
