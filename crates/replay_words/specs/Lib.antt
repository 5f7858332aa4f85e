pub mod Places
pub mod Table
pub mod Reading
pub mod Touching
pub mod Writing
pub mod Striking
pub mod WordsState
pub mod Inside
