mod Open
pub mod Tables
