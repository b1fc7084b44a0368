pub mod Answers
pub mod Eights
pub mod Places
pub mod Owners
pub mod Report
pub mod Sums
pub mod Theorems
