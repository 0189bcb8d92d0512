pub mod HonestBuilds
pub mod Compiling
pub mod Judging
pub mod CompiledItems
pub mod Machines
pub mod Numbers
pub mod PageMaps
pub mod Plans
pub mod Renderings
pub mod Replayed
pub mod Showing
mod SitePlans
pub mod Storing
