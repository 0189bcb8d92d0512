pub mod Histories
pub mod Lines
pub mod ReportNumbers
pub mod Separated
pub mod Views
