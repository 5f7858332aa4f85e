pub mod Order
pub mod Cursors
pub mod Fates
pub mod Gathered
