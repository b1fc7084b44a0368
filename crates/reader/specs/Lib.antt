pub mod Front
pub mod RefusalPath
pub mod Meaning
pub mod Answers
pub mod Cleared
pub mod Entering
pub mod Groups
