mod Turns
mod Digits
pub mod Trailer
