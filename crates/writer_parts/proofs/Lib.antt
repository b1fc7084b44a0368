pub mod AttributeWays
mod CodeWays
mod EndWays
mod HeadWays
pub mod JudgingWays
pub mod Leads
mod LeafWays
pub mod NoteLaws
pub mod NoteWays
pub mod WalkLaws
mod PenLaws
mod PenWays
pub mod PutWays
mod ValueWays
