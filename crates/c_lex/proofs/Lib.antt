pub mod StepLoop
pub mod Digits
pub mod Ends
pub mod Rising
