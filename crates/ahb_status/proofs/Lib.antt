pub mod FirstNote
pub mod TurnLemmas
