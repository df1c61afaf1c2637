pub mod Numbers
pub mod Texts
pub mod NaturalTexts
pub mod Readings
