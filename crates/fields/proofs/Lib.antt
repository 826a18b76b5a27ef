pub mod Tables
pub mod Forms
pub mod Tests
pub mod Rules
