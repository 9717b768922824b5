-- The words in which demand 3 speaks of answers, entries and tables.
pub mod Answer
pub mod Steps
