pub mod Adds
pub mod Lines
pub mod Listing
pub mod Puts
pub mod Texts
pub mod Words
pub mod Worked
