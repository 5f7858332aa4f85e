pub mod Bits
pub mod Ways
pub mod Units
pub mod Kept
pub mod PlanNumbers
