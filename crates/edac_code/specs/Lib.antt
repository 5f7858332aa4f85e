pub mod Code
pub mod Reading
pub mod Kept
