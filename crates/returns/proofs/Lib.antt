pub mod Leaving
pub mod Saying
