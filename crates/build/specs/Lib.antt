-- A whole list in one call: what it gives, what it needs, and what describes the steps of the code.
pub mod Build
pub mod Needs
pub mod Theorems
pub mod Examples
pub mod Steps
