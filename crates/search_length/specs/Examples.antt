-- Worked examples of the rules.
pub mod Rows
