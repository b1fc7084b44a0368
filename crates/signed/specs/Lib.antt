pub mod Words
pub mod Views
pub mod Numbers
