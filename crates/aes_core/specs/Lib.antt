pub mod Field
pub mod Cipher
pub mod Planes
pub mod Circuit
pub mod Modes
pub mod Algorithm
