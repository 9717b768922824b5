-- Laws of the exported building of a list.
pub mod Builds
pub mod Needed
