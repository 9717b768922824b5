-- What the functions answer, and what is proved of it.
pub mod Format
pub mod SheetReading
pub mod SheetWriting
pub mod Steps
pub mod Theorems
pub mod Examples
