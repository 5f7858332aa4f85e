pub mod PlaceLemmas
pub mod TableLemmas
pub mod WriteLemmas
pub mod StrikeLemmas
pub mod AnswerLemmas
pub mod FateLemmas
