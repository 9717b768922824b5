-- What the functions answer, and what is proved of it.
pub mod Calendar
pub mod Rule
pub mod Windows
pub mod Steps
pub mod Cases
pub mod Theorems
pub mod Examples
