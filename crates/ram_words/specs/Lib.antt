pub mod Ram
pub mod Parts
