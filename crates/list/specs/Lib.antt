pub mod Ascii
pub mod Digits
pub mod Listing
pub mod Text
