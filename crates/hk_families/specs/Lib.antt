pub mod Mutual
pub mod MutualLaws
pub mod Sample
pub mod SampleLaws
