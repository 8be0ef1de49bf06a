pub mod Slopes
pub mod Answers
