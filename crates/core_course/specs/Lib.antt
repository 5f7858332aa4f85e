pub mod Lines
pub mod Result
pub mod CoreOk
pub mod Calls
pub mod Settled
