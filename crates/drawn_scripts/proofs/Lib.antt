pub mod CountedRuns
pub mod Generated
pub mod GeneratedLines
pub mod GeneratedSteps
pub mod Newlines
pub mod OwnErrors
