pub mod Symbol
pub mod Mod37
pub mod Steps
pub mod Wedge
pub mod Answer
pub mod Number
pub mod Day
pub mod Iban
