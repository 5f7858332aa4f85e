-- The bus: the memory words that the script strikes, the walk of the scrubber, AHBSTAT, and the run of all masters over the
-- transfers of a trace.
pub mod Words
pub mod Walk
pub mod Status
pub mod Replay
