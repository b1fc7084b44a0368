mod PathNames
pub mod Paths
pub mod ReadLaws
mod RoomLaws
mod Replies
mod ReportLaws
