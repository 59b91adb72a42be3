pub mod Files
pub mod HeaderSpaces
pub mod Lengths
pub mod Homes
pub mod Spaces
pub mod PageRefusals
pub mod Refusals
pub mod Naming
