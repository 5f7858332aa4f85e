pub mod EffectForm
pub mod ComesTo
pub mod NotedTouches
pub mod FootprintOf
pub mod FootprintAttempts
pub mod FootprintCells
pub mod RetiredRun
