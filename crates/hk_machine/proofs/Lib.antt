pub mod Answering
pub mod Applied
pub mod Asked
pub mod Beginning
pub mod ChainDeeds
pub mod ChainQuiet
pub mod Coming
pub mod Giving
pub mod Grouping
pub mod Joining
mod LinkedRuns
pub mod Quieting
pub mod Refused
pub mod PlanProper
pub mod Stopping
pub mod Turning
pub mod Using
mod Worked
