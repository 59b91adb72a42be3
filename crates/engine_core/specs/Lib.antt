pub mod Journal
pub mod Kept
pub mod Engine
pub mod Reading
