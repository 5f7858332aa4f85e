pub mod Ways
pub mod WordState
pub mod Past
pub mod Words
pub mod Kept
