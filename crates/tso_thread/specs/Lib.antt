pub mod ReplayState
pub mod ReplayInside
pub mod ThreadState
pub mod Shown
