pub mod Ascending
pub mod Both
pub mod Entries
pub mod Keys
