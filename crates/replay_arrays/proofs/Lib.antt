pub mod CellLemmas
pub mod OwnLemmas
pub mod StrikeLemmas
pub mod PendingLemmas
pub mod FateLemmas
