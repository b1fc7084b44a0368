pub mod Plain
pub mod Formulas
