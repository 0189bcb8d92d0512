pub mod FolderWrites
pub mod Making
pub mod SamePaths
pub mod Targets
pub mod WholeSite
