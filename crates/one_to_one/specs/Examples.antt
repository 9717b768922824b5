-- Worked examples.
pub mod Rows
pub mod MissedExchange
