pub mod Part
pub mod SlotsState
pub mod SlotsInside
pub mod CacheState
pub mod CacheInside
pub mod Keeps
pub mod KeepsStruck
