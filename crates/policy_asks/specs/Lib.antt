pub mod Question
pub mod Answer
pub mod Io
pub mod OneLine
pub mod Asked
pub mod Findings
