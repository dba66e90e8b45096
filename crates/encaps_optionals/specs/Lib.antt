pub mod Answers
pub mod Formats
pub mod ProxyAnswers
pub mod Usable
