-- What describes the steps of code. No rule stands here, and nobody has to believe it: proofs/ joins it to the rules.
pub mod Earlier
pub mod Closing
pub mod Storing
