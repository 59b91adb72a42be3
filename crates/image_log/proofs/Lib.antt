pub mod WholeMtrs
pub mod MtrTexts
pub mod ChangeLists
pub mod Entries
pub mod Clear
pub mod Checkpoints
