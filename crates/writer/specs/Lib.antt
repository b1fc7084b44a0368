pub mod Meaning
pub mod Groups
pub mod Answers
pub mod Front
pub mod Cleared
