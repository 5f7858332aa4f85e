pub mod Fields
pub mod Headers
pub mod Spelled
pub mod Refusals
pub mod Names
pub mod Answer
pub mod Written
pub mod Tables
