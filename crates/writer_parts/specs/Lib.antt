pub mod Notes
pub mod Pen
pub mod Walk
pub mod Heads
pub mod Codes
pub mod Parts
