pub mod TurnedBits
pub mod UnitLemmas
pub mod PlanLemmas
