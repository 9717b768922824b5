-- What only describes code. No rule is here: proofs/ joins it to the rules.
pub mod Resume
pub mod Search
pub mod Tables
