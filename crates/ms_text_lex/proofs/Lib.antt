pub mod StepLoop
pub mod Digits
pub mod Spans
pub mod StringLaws
pub mod StringValues
pub mod StringRuns
