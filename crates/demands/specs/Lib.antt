pub mod Demands
pub mod Determined
pub mod Parties
pub mod Prefix
