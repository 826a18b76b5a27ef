pub mod Ends
pub mod Walks
pub mod Puts
pub mod Answers
