pub mod ToggleLemmas
pub mod StoredLemmas
pub mod HistoryLemmas
