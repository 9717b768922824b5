-- What the calls on a bundle answer, as 02 (i) says it, and what is proved of it.
pub mod FileWalk
pub mod Opening
pub mod Append
pub mod Cases
pub mod Steps
pub mod AppendList
pub mod Theorems
pub mod Examples
