mod Years
mod March
mod Civil
mod Next
pub mod Laws
mod Cases
