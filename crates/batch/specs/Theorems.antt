-- Statements of theorems.
pub mod Theorem
