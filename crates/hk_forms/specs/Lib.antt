pub mod IdForm
pub mod Members
pub mod Names
pub mod PatternForm
pub mod PatternText
pub mod RouteForm
