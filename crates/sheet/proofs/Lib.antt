-- The laws of the format, of the reader and of the writer, and the theorem.
pub mod CountsAndIds
pub mod Sections
pub mod Sheets
pub mod Files
pub mod Parts
pub mod SheetStored
pub mod Theorem
pub mod ExampleRows
