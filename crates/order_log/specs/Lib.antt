pub mod LogState
pub mod Inside
