pub mod Taking
pub mod Reading
pub mod Storing
pub mod Counts
