pub mod Identcodes
pub mod Example
