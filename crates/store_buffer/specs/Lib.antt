pub mod BufferState
pub mod Inside
