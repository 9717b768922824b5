-- What the writer's calls give, as 01 says it, for every record and every buffer.
pub mod State
pub mod Put
pub mod Close
pub mod Grown
pub mod Numbers
pub mod CRecord
pub mod Theorems
pub mod Steps
