-- What the parts of a run leave of it, over data alone: each core its record, and the bus its own. From these the trace is made.
pub mod CoreRules
pub mod OwnTurns
pub mod SeenOrder
pub mod CoreRecord
pub mod BusMemory
pub mod BusRecord
pub mod AllRecords
