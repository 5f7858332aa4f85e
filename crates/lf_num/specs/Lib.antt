pub mod Bits
pub mod Toggles
pub mod Columns
pub mod Arithmetic
