-- What the exported building of a list answers, and what a list needs.
pub mod Building
pub mod Needs
