pub mod Running
pub mod SeenSoFar
pub mod RunSoFar
pub mod StepsSoFar
pub mod StepTouches
