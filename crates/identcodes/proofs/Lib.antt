pub mod Forks
pub mod Unlike
pub mod Slots
pub mod Parting
pub mod Answers
pub mod Growing
pub mod Example
