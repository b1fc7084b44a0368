mod Bounded
mod Choices
mod Complete
pub mod Demand2
pub mod Demand3
mod Demand3Lists
mod Follow
mod FollowsModel
mod Lists
mod ModelIs
pub mod NamedReading
pub mod NamedWriting
mod Neat
mod One
mod Own
pub mod Parties
mod Parts
mod Payload
pub mod Prefix
pub mod Reader
mod Shorter
mod Shortest
mod Sound
mod Unseen
mod UnseenPayload
pub mod ValidModel
mod Walk
mod WriteComplete
mod WriteSound
