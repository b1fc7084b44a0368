pub mod Rfc
pub mod Controls
pub mod Text
pub mod Steps
pub mod Slanted
