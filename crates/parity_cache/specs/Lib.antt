pub mod CacheState
pub mod CacheUnits
pub mod Keeps
pub mod Kept
pub mod Resident
