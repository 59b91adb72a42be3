pub mod Text
pub mod Block
pub mod Reading
pub mod Changes
