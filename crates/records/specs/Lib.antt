pub mod Record
pub mod Version
