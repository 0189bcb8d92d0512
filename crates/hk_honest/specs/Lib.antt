pub mod Chain
pub mod Honest
pub mod Mended
