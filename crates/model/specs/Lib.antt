pub mod Meaning
pub mod Formulas
