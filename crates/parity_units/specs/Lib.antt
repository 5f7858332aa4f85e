pub mod Bytes
pub mod Events
