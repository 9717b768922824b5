-- What is proved of the rules: statements alone, whose proofs stand in proofs/.
pub mod Asked
pub mod Theorem
pub mod Held
pub mod Fails
pub mod Words
