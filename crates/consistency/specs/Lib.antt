-- Whether an image is consistent: whether an id's name leads back to it, and whether the panel reads whole names.
pub mod Matches
pub mod Home
pub mod Panel
pub mod Theorems
