pub mod Sheets
pub mod Refusing
pub mod SheetLaws
pub mod FaultLaw
