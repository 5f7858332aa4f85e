pub mod Draws
pub mod Program
pub mod Encoding
pub mod Layout
pub mod Drill
