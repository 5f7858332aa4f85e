pub mod SlotLists
pub mod RunLemmas
pub mod SlotsLemmas
pub mod SetLemmas
pub mod StruckLemmas
