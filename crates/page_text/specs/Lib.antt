pub mod Lends
pub mod Opening
pub mod Parts
pub mod State
pub mod Text
