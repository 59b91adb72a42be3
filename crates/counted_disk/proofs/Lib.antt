pub mod CallCounts
pub mod Stopped
