pub mod StoreTheory
pub mod Recovers
pub mod Stands
pub mod Writes
pub mod Rest
pub mod LogForm
pub mod Opened
