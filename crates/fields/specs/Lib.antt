pub mod Form
pub mod Profile
pub mod Field
