pub mod Layouts
pub mod Spans
pub mod Sorting
