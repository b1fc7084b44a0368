pub mod CallLaws
mod CallWays
mod Codes
