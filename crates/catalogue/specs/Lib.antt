-- The lines of an input as puts, and what the program leaves and prints: 01, "Examples from the quay", the paragraph
-- on the demonstration program.
pub mod Lines
pub mod Left
pub mod Steps
pub mod Theorems
