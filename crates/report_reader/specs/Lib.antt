pub mod Whole
pub mod Dashes
pub mod Answer
pub mod Laws
