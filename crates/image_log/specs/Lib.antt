pub mod Late
pub mod Logs
