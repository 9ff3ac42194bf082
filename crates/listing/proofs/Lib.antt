pub mod Adding
pub mod Example
pub mod Fronts
pub mod Rows
