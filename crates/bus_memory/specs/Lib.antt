pub mod Followed
pub mod Strikes
pub mod MemoryState
pub mod Kept
pub mod Inside
pub mod Answers
pub mod Names
pub mod Named
