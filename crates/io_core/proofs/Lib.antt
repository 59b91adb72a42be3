pub mod Causes
pub mod Fills
pub mod Lookups
pub mod Readers
pub mod Streams
pub mod WholeFiles
