pub mod Plan
pub mod Pending
pub mod Rule
pub mod Standing
pub mod Ledger
pub mod Follows
pub mod Kept
