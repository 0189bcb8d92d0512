pub mod Call
pub mod Causes
pub mod Failing
pub mod Held
pub mod Mem
pub mod Sink
pub mod Tree
