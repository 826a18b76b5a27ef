pub mod Grammar
pub mod Written
