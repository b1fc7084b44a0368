pub mod Codes
pub mod Accepts
