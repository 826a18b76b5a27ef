pub mod Starting
pub mod Seeking
pub mod Cutting
pub mod Answering
