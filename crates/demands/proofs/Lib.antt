mod AreaBack
mod Demand1
mod Demand2
mod Demand3
pub mod Demands
pub mod Determined
pub mod Parties
pub mod Prefix
mod WholeTables
