-- The course of one core: what its steps and its turns on the bus do to its caches, its register cells and its store buffer,
-- and what each of them needs.
pub mod Core
pub mod Arrays
pub mod Outcome
pub mod Attempt
pub mod Progress
pub mod LocalStep
pub mod Syndromes
pub mod Turn
pub mod Turned
pub mod Course
pub mod Touches
