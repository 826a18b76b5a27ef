pub mod Adding
pub mod Filling
pub mod Listing
