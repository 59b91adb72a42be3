pub mod Header
pub mod Checkpoint
pub mod RingBlock
pub mod Run
pub mod Pages
