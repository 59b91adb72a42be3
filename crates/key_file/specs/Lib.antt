pub mod Line
pub mod Plain
pub mod Derivation
pub mod Salted
pub mod Gathered
pub mod Load
pub mod Cause
pub mod Loaded
