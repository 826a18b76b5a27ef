pub mod Records
pub mod Types
pub mod Versions
