pub mod Extensions
pub mod Replacing
