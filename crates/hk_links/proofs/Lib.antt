pub mod PartLemmas
pub mod RelativeLemmas
pub mod ReportLemmas
pub mod SearchLemmas
