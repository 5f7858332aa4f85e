pub mod FateRule
pub mod AbsentFlips
pub mod PastNames
pub mod FlipStates
pub mod FollowLemmas
pub mod KeptLemmas
pub mod PlanLemmas
