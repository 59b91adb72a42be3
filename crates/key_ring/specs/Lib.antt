pub mod Ring
pub mod Local
pub mod Refusal
