-- Statements of theorems: what is proved of the rules.
pub mod FoundAt
pub mod Bounds
pub mod Walks
