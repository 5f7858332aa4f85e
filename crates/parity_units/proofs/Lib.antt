pub mod EventLemmas
pub mod ByteLemmas
