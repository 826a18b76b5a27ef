pub mod Scans
pub mod Laying
pub mod Pieces
pub mod Tallying
