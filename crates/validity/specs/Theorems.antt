-- What is proved of the rules: statements alone, whose proofs stand in proofs/.
pub mod Seasons
