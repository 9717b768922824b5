-- Average search length: 02 (x): the rules, what is proved of them, examples, and the steps of the code.
pub mod SearchLengths
pub mod Average
pub mod Theorems
pub mod Examples
pub mod Steps
