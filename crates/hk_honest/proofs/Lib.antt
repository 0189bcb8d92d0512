pub mod Runs
pub mod Clean
pub mod Stops
pub mod Said
