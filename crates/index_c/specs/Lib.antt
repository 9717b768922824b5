-- What the exported calls of the index promise.
pub mod IndexC
pub mod Theorems
