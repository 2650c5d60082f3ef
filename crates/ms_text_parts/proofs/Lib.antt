pub mod StepLoop
pub mod Constants
