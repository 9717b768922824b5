-- Statements of theorems: what is proved of the rules.
pub mod Homes
pub mod PanelReads
