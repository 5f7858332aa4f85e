pub mod OneWord
pub mod Bytes
pub mod Fetched
pub mod Flips
pub mod Upsets
pub mod NeverBad
pub mod NeverStruck
