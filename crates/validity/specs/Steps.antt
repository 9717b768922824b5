-- What describes the steps of code. No rule stands here: proofs/WindowLaws joins it to the rule.
pub mod Fold
