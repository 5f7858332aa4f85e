pub mod Note
pub mod Inside
pub mod Seen
