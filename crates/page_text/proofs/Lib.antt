pub mod Keys
mod LentPart
pub mod Opened
pub mod PartLaws
pub mod Writes
