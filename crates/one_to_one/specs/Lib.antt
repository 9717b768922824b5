-- One to one: the rule, what is proved of it, and worked examples.
pub mod OneToOne
pub mod Theorems
pub mod Examples
