pub mod Choosing
pub mod Meaning
pub mod Recovering
