pub mod Area
pub mod Calls
pub mod EventRoom
pub mod Rooms
pub mod TableRoom
pub mod Promises
