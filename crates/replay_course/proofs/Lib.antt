pub mod BadCells
