pub mod Answered
pub mod Answering
pub mod Holding
pub mod Noting
pub mod Passing
pub mod Phases
pub mod Polling
pub mod Bridging
pub mod Matching
pub mod Planned
pub mod Renewed
pub mod LeftEntries
mod FirstPlaces
mod SamePages
