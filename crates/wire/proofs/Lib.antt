pub mod BitLaws
pub mod Groups
pub mod Lawful
pub mod Laws5
mod Laws8
pub mod Put
pub mod ReadWays
pub mod Res
mod Steps
pub mod Store
mod Whole5
pub mod Width
pub mod WindowLaws
pub mod WriteWays
