pub mod Telling
pub mod Numbering
