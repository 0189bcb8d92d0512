pub mod DepsText
pub mod Printed
pub mod ReportText
pub mod Telling
pub mod TraceText
