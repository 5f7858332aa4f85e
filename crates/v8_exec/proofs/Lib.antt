mod CheckLemmas
mod CodeLemmas
mod SizeLemmas
mod JoinLemmas
mod LoadLemmas
mod ReadLemmas
mod TrapLemmas
mod TurnLemmas
pub mod AtomicLemmas
pub mod EffectShape
pub mod CourseReads
pub mod CourseTouches
pub mod CourseAnswers
pub mod DrainLemmas
