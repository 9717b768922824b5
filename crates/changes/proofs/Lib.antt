-- Laws of changes and moved names. `Theorem` says of the rules what users ask besides the answers.
pub mod Namings
pub mod Search
pub mod Moves
pub mod Theorem
