pub mod EventRoom
pub mod Promises
pub mod Bits
