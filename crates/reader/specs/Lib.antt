-- What reading gives, as 01 says it, on every slice of bytes.
pub mod Open
pub mod Lookup
pub mod Slices
pub mod Naming
pub mod IdWalk
pub mod Cases
pub mod Theorems
pub mod Examples
pub mod Steps
