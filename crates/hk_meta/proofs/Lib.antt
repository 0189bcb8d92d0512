pub mod Entries
pub mod Members
pub mod FirstLine
pub mod Reading
pub mod Printing
pub mod KeysDiffer
