-- What the functions answer, and what is proved of it.
pub mod Changes
pub mod Moves
pub mod Cases
pub mod Theorems
