-- What describes the steps of code. No rule stands here, and nobody has to believe it: proofs/ joins it to the rules.
pub mod HiddenBuckets
pub mod Made
pub mod InPlace
pub mod Checks
pub mod Contracts
