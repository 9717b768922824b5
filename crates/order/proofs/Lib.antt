-- The laws of the rule, and the theorem.
pub mod PairLaws
pub mod Places
pub mod Theorem
pub mod ExampleRows
