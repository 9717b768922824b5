-- Statements of theorems: what is proved of the rules.
pub mod Kept
