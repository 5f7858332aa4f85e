pub mod Bare
pub mod ReadItems
pub mod DashLaws
pub mod WholeLaws
pub mod Told
