pub mod Answers
pub mod Bytes
pub mod Identifier
pub mod Key
pub mod Line
pub mod Ties
pub mod IdentTies
