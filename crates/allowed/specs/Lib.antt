pub mod Allowed
pub mod Countries
pub mod Sentence
pub mod Version
