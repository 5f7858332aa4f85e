pub mod Sums
pub mod SignLemmas
pub mod ToggleLemmas
pub mod StepLemmas
pub mod ShiftLemmas
