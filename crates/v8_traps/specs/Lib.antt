pub mod Entry
pub mod Priority
