-- Worked examples: rows that the checker computes.
pub mod Slots
