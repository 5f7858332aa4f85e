pub mod Toggling
pub mod Cells
pub mod Codes
pub mod Laws
pub mod Stored
pub mod WordCells
pub mod Histories
