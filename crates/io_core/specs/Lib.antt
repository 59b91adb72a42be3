pub mod Told
pub mod Cause
pub mod Stream
pub mod Files
pub mod Calls
pub mod Memory
pub mod Whole
