-- Laws of the average search length.
pub mod Histogram
pub mod Answers
pub mod EntriesFound
pub mod Theorem
pub mod ExampleRows
