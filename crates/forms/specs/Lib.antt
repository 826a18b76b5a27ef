pub mod Shape
pub mod Amount
pub mod Date
pub mod Feature
