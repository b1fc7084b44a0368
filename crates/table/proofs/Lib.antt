pub mod Bits
mod Tests
mod Choices
mod Given
mod OneRow
mod CastRows
mod Turns
mod Judging
mod Once
mod Order
mod Parties
pub mod CastLaws
pub mod Casts
mod Decoded
mod Example
mod Faults
pub mod FirstLaws
pub mod Held
pub mod RowsInside
pub mod Laws
mod Lines
pub mod Walk
