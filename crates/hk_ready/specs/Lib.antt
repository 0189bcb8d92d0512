pub mod Queued
pub mod View
