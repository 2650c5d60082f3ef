pub mod Loops
pub mod StepLoop
pub mod OpenBlocks
pub mod Modules
