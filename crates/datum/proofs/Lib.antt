-- Laws of plain data: a type of the source with what memory holds of it (`Datum`), and an array while a list is copied into it (`SoFar`).
pub mod Datum
pub mod SoFar
