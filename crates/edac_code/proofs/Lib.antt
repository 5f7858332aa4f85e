pub mod Tables
pub mod Checks
pub mod Syndromes
pub mod Answered
pub mod KeptBits
