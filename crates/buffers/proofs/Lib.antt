pub mod Loops
pub mod BytesLaws
