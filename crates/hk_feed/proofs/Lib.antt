pub mod Accepting
pub mod Checks
pub mod Lists
pub mod Unescaping
pub mod Within
pub mod Writing
