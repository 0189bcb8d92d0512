-- The definitions of feeds.
pub mod Accepted
pub mod Entries
pub mod FeedFaults
pub mod FeedText
pub mod Members
pub mod Recent
pub mod Titles
pub mod Xml
