-- The definitions of the name hash: words, lookup3's hashlittle, and the hash of a name with its refusal.
pub mod Word
pub mod Outcome
pub mod Refusals
pub mod Lookup3
pub mod Theorems
pub mod Steps
pub mod NameHash
