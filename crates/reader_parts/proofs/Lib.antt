mod AttributeWays
pub mod Bytes
pub mod CodeWays
pub mod EndsLaws
mod HeadWays
pub mod Laws
mod OneWays
pub mod OpeningWays
pub mod PathLaws
mod StoreWays
mod TextWays
mod ValueWays
