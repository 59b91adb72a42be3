pub mod Streams
pub mod Lines
pub mod Gathering
pub mod KeyFiles
pub mod CipherText
pub mod FilesRead
pub mod RingKeys
pub mod Loads
pub mod Unique
pub mod Versions
mod DigestBytes
pub mod DerivedKeys
pub mod OneText
pub mod OneAnswer
