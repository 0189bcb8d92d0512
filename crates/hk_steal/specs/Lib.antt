pub mod Decked
pub mod View
