pub mod WalkState
pub mod Inside
