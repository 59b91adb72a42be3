pub mod Parts
pub mod Table
pub mod Values
pub mod Settings
pub mod Plans
pub mod Words
pub mod Drafts
pub mod Limits
