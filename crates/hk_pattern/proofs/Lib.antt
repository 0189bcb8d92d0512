pub mod Cuts
pub mod Tails
pub mod Walking
pub mod Matching
