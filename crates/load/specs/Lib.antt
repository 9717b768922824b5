-- The load of a seed: its states, names and puts, and what is proved of it.
pub mod States
pub mod Load
pub mod Theorems
pub mod Examples
