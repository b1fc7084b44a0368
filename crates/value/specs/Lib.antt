pub mod Dates
pub mod Code
pub mod Simple
pub mod Values
pub mod Answer
pub mod Found
pub mod Kinds
