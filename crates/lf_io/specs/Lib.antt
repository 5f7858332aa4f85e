pub mod Count
pub mod Held
pub mod Taken
pub mod Answers
pub mod Opened
pub mod Memory
pub mod Codes
