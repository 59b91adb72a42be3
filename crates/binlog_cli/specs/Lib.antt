pub mod EventLines
pub mod Stops
pub mod EndLines
pub mod Printed
pub mod Listing
pub mod Keys
pub mod Words
