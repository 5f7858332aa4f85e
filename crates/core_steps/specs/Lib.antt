pub mod Works
pub mod Tries
pub mod RunsAfter
