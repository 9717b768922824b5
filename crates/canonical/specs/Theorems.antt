-- What is proved of the rules.
pub mod CanonicalImages
