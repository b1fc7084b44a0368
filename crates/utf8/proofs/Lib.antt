mod Cases
mod ControlLaws
pub mod Exact
mod Left
mod Lines
mod Look
mod Rows
mod Run
pub mod SlantedLaws
