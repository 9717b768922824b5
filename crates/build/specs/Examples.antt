-- Worked examples.
pub mod Rows
