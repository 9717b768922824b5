-- Is an image canonical? 02 (ix): the rule and the decision, what is proved of them, examples, and the steps of the
-- code.
pub mod Canonical
pub mod Theorems
pub mod Examples
pub mod Steps
