-- Laws of a round.
pub mod IndexLists
pub mod Duplicates
pub mod AnswerPlaces
pub mod Lookups
pub mod Probes
pub mod Passes
pub mod UniqueSums
pub mod RoundAnswers
pub mod PlaceWords
pub mod Different
pub mod Theorem
pub mod ExampleRows
