-- The definitions of templates.
pub mod Cut
pub mod Fault
pub mod Growing
pub mod Key
pub mod ParserViews
pub mod Parsing
pub mod Place
pub mod Stepping
pub mod Stop
pub mod Template
pub mod Token
pub mod Tree
pub mod TreeCode
pub mod View
