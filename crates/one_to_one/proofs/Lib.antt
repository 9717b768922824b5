-- Laws of the first failure, of the walk, and of the puts; and the theorem.
pub mod Failures
pub mod Walking
pub mod Answers
pub mod Puts
pub mod Pairs
pub mod Theorem
pub mod Exchanges
pub mod ExampleRows
pub mod MissedExchange
