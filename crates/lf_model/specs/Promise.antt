-- What is promised of a run: its trace is regular, follows the schedule, keeps the ledger, and is an execution whose results it
-- reports.
pub mod RegularTransfer
pub mod Regular
pub mod Turns
pub mod Follows
pub mod Headline
pub mod NeverStops
pub mod Played
