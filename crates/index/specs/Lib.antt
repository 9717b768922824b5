-- The index of the names that a buffer holds.
pub mod Index
pub mod Probe
pub mod Refusals
pub mod Promise
pub mod Theorems
pub mod Examples
pub mod Steps
