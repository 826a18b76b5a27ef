pub mod Quoted
pub mod Tabled
pub mod Scan
pub mod Byte
pub mod Decimal
pub mod Placed
