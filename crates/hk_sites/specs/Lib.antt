pub mod PlanSite
pub mod Rebuilding
pub mod Sizes
