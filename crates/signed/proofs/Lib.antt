mod Held
mod Ways
mod Cases
pub mod Laws
mod Numbers
