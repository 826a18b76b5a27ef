pub mod Shapes
pub mod Decimals
pub mod Amounts
pub mod Dates
pub mod Features
pub mod Example
