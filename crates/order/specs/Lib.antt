-- What the functions answer, and what is proved of it.
pub mod Rule
pub mod Cases
pub mod Theorems
pub mod Examples
