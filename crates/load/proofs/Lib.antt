-- Laws of the load, and its theorem.
pub mod StateNames
pub mod PutTurns
pub mod BeginAnswers
pub mod AcceptedEntries
pub mod BytesBehind
pub mod Theorem
pub mod ExampleRows
