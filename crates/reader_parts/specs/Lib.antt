pub mod Paths
pub mod Out
pub mod Parts
pub mod Heads
pub mod Codes
pub mod Opening
pub mod Texts
