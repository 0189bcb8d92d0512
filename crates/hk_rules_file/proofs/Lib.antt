mod Documents
pub mod LinkedContexts
pub mod LinkedFields
pub mod LinkedNumbers
pub mod LinkedRoutes
pub mod LinkedRules
pub mod LinkedSteps
pub mod LinkedTables
mod NameLemmas
mod NumberLemmas
mod Places
mod RuleLemmas
