-- What a round answers, and what is proved of it.
pub mod RoundNames
pub mod Round
pub mod NameRound
pub mod Theorems
pub mod Examples
pub mod Steps
