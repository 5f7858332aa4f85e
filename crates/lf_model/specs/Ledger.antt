-- The ledger: all that a trace reports, against what the course of its cores and the run of the bus give.
pub mod Steps
pub mod CoreAccount
pub mod OrderAccount
pub mod FlipFate
pub mod Account
pub mod Same
pub mod Rule
