-- What describes the steps of code. No rule stands here, and nobody has to believe it: proofs/ joins it to the rules.
pub mod Probed
pub mod Decided
pub mod Fill
