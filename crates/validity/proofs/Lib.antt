-- The laws of the calendar and of the rule, and the theorem.
pub mod Months
pub mod Dates
pub mod Order
pub mod WindowTests
pub mod WindowLaws
pub mod Theorem
pub mod ExampleRows
