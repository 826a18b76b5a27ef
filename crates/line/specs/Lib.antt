pub mod Parts
pub mod Render
pub mod Told
pub mod Walk
pub mod Need
pub mod Line
pub mod Find
