pub mod Identcode
