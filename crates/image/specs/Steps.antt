-- What only describes code. No rule is here: proofs/ joins it to the rules.
pub mod EntryLength
pub mod Contracts
pub mod Walk
