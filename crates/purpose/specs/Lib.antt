pub mod At
pub mod Source
pub mod Purpose
