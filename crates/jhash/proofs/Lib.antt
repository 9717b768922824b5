-- The laws of words and of the name hash. Published for the crates above: `WordRead`, `Outcomes`, `Rotation`, `Vectors` and
-- `ValueOrRefusal`.
pub mod WordRead
mod Mixing
mod Blocks
mod Limit
mod Powers
pub mod Outcomes
pub mod Rotation
pub mod Vectors
pub mod ValueOrRefusal
