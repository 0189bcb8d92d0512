pub mod Arguments
pub mod Given
pub mod Leaf
pub mod Numbers
pub mod Usage
pub mod Words
