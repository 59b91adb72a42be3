pub mod LogFiles
pub mod Sessions
