pub mod CellsState
pub mod CellsInside
pub mod KeepsStruck
pub mod Own
pub mod Aims
pub mod Striking
pub mod ArraysState
pub mod ArraysInside
