pub mod Lent
pub mod Version
pub mod Contact
pub mod Identcode
pub mod Cash
pub mod Step
pub mod File
