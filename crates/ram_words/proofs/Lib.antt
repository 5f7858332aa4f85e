pub mod LoadLemmas
pub mod PartLemmas
