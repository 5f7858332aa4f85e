pub mod Outcomes
pub mod CoreArrays
pub mod Retiring
pub mod Progresses
pub mod Grounds
pub mod CoreInside
