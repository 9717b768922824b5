-- Laws about the lines of an input, and about what the program reads and prints.
pub mod Decimals
pub mod Forms
pub mod Skipped
pub mod InputLines
pub mod PieceBytes
pub mod WholeInput
pub mod InputRead
pub mod BuiltImage
pub mod PrintedWalk
