-- Worked examples: rows that the checker computes.
pub mod Rows
pub mod DateRows
