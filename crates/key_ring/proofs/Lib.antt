pub mod Keys
pub mod Locals
