-- Lists of put and close calls, and what demand 3 says of them.
pub mod Calls
pub mod Demand3
pub mod Theorems
pub mod Examples
