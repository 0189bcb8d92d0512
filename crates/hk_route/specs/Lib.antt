pub mod Rewriting
pub mod Route
