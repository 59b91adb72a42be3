pub mod Changes
pub mod Contents
pub mod Pages
pub mod Slots
