pub mod MemoryLemmas
pub mod TurnLemmas
