pub mod SlotState
pub mod Units
pub mod ParityWords
pub mod Inside
pub mod SlotsState
pub mod Kept
