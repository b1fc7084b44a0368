mod Cases
pub mod CodeLaws
pub mod DateLaws
mod DateWays
mod FormWays
mod KindWays
mod LayWays
pub mod OctetsLaws
mod ReadWays
pub mod SimpleLaws
pub mod ValueLaws
pub mod WriteWays
