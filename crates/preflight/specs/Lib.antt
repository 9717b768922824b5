-- What the functions answer, and what is proved of it.
pub mod Answers
pub mod Cases
pub mod Ids
pub mod Names
pub mod Exchanges
pub mod OnSheet
pub mod Verdicts
pub mod Counts
pub mod Preflight
pub mod Dates
pub mod Steps
pub mod Theorems
pub mod Examples
