pub mod Texts
pub mod ChangeLaws
pub mod ChangeReads
pub mod BlockWrites
pub mod BlockLoop
pub mod BlockFields
pub mod BlockTaken
