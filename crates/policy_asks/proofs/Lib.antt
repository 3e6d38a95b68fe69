pub mod AnswerLines
pub mod ListedText
