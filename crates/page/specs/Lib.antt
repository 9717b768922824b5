-- What a page is, what the call gives and leaves, and what is proved of it.
pub mod Page
pub mod Call
pub mod Steps
pub mod Theorems
pub mod Examples
