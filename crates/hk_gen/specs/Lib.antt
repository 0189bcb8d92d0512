pub mod Line
pub mod Posts
pub mod Random
pub mod Rules
pub mod Site
