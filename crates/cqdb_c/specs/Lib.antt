-- What the exported functions answer.
pub mod Version
pub mod Hash
pub mod ReadAnswers
pub mod Writing
pub mod Grown
pub mod SizeWith
