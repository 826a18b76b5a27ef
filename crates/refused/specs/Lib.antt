pub mod Line
pub mod File
pub mod Write
pub mod Purpose
pub mod Number
pub mod Day
pub mod Wedge
pub mod Identcode
